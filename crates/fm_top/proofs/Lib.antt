pub mod CommandLine
pub mod Outputs
pub mod Verdicts
pub mod Ideals
pub mod Summaries
pub mod FirstRank
pub mod Certified
