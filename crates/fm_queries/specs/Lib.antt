pub mod Bases
pub mod Duals
pub mod Founds
pub mod Maps
