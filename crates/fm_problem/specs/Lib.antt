pub mod Limits
pub mod Faults
pub mod Statements
pub mod Problems
pub mod Readings
pub mod Views
pub mod Sound
