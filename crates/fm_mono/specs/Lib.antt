pub mod Orders
pub mod Accessible
pub mod Bounded
pub mod Packed
