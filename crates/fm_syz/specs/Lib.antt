pub mod GeneratorValues
pub mod GraphValues
pub mod Insides
pub mod Numbers
