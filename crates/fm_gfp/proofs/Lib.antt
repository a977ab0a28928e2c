pub mod Binomials
pub mod Residues
