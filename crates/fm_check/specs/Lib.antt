pub mod Standings
pub mod Reports
pub mod Heads
pub mod Lines
pub mod Counted
