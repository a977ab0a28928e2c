pub mod Texts
pub mod Printing
pub mod Factors
pub mod SumOfTerms
pub mod Polynomials
pub mod Certificates
pub mod Readings
pub mod Views
