mod VectorNumbers
mod PairHeads
mod Additions
mod PairSteps
mod Entries
mod Endings
mod LogSteps
