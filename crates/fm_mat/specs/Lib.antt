pub mod Acting
pub mod Bounds
pub mod Columns
pub mod Matrices
