pub mod Ends
pub mod Following
pub mod Spending
pub mod Counting
pub mod Calls
pub mod Parts
