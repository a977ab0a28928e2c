pub mod Claims
pub mod Kinds
pub mod Writers
