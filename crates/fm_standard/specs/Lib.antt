pub mod Writing
pub mod Small
pub mod Said
