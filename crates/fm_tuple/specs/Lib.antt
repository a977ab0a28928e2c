pub mod Tuple
