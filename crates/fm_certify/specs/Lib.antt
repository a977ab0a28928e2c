pub mod Claims
pub mod Series
