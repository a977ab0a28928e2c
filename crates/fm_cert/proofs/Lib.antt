pub mod RowsRead
pub mod KindsRead
pub mod WordsRead
pub mod LinesRead
pub mod OneLine
pub mod PiecesWritten
pub mod LinesWritten
pub mod PartsNamed
