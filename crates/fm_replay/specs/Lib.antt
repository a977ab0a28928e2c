pub mod Refusals
pub mod Steps
pub mod Kept
pub mod Endings
