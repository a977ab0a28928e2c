pub mod Adding
pub mod Proper
pub mod Meaning
pub mod Components
pub mod PlacedTerms
pub mod Inverse
pub mod SVectors
