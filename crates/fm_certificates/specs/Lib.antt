pub mod Certificates
pub mod Reports
