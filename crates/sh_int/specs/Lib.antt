pub mod Signed
pub mod Elements
pub mod Reduction
