pub mod Fibres
pub mod Joins
