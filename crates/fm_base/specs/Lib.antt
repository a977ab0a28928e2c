pub mod Causes
pub mod Parts
pub mod Statuses
pub mod Feed
pub mod Store
