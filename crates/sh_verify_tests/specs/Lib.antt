pub mod Cuts
pub mod Modules
pub mod Samples
