pub mod Annihilators
pub mod Inverting
pub mod Powers
