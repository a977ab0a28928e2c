pub mod Pages
pub mod Places
pub mod Claimed
pub mod KindRows
