pub mod Views
pub mod Following
pub mod Goals
pub mod Kernels
pub mod Named
pub mod Further
