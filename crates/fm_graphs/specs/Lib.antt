pub mod Listing
pub mod Bounds
pub mod Graphs
pub mod Trims
pub mod Within
pub mod Sizes
