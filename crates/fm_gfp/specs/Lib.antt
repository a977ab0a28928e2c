pub mod Primes
pub mod Binomials
