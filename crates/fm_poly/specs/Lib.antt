pub mod Bounds
pub mod Polys
pub mod Steps
