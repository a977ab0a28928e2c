pub mod Calls
pub mod Products
pub mod Chains
pub mod LiftChains
pub mod LiftMeaning
pub mod IdentityChains
