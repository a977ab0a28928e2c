pub mod Supports
pub mod Acting
pub mod Steps
pub mod Operations
pub mod Meanings
