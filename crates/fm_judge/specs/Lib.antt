pub mod Goals
pub mod Places
pub mod Claims
pub mod Tasks
pub mod Judging
pub mod Examples
