pub mod ContainedRuns
pub mod JoinRuns
pub mod MapRuns
pub mod OntoRuns
