pub mod Vectors
pub mod Multiples
pub mod Components
pub mod Steps
