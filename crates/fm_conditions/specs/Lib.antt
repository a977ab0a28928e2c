pub mod Constants
pub mod Generators
pub mod Listings
pub mod Meanings
pub mod Measures
pub mod Reasons
