pub mod Lifts
pub mod LinkParts
pub mod LeastMoves
pub mod Members
pub mod Repeats
pub mod StageRuns
