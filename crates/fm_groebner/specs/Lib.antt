pub mod Bases
pub mod Logs
pub mod Graphs
pub mod Syzygies
pub mod Examples
