pub mod Memberships
pub mod ResolvingRuns
pub mod Stages
pub mod Resolved
