pub mod Tensor
pub mod Runs
