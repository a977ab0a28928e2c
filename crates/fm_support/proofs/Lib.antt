pub mod AnnihilatorRuns
pub mod ColonRuns
pub mod InvertRuns
pub mod LeastPowers
pub mod PowerRuns
pub mod ScalarRuns
pub mod Tables
