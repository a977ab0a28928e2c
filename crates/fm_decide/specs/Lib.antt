pub mod Reports
pub mod Ends
