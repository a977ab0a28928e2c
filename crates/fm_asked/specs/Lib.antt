pub mod Narrowing
pub mod Forms
pub mod Partings
pub mod Beginnings
pub mod Naming
pub mod Ending
pub mod OpenLogs
pub mod States
