pub mod Tables
pub mod Nodes
pub mod Kept
pub mod Blocks
