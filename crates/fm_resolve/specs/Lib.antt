pub mod Memberships
pub mod Resolutions
