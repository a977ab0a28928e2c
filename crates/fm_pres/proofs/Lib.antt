pub mod Tables
pub mod Nodes
pub mod Shapes
pub mod Values
