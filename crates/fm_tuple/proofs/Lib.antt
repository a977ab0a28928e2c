pub mod Tuples
pub mod TupleEntries
pub mod TupleDivisors
