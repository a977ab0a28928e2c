pub mod Differentials
pub mod Morphisms
pub mod InRow
pub mod IdentityGraphs
