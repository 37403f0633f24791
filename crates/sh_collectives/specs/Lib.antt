pub mod Ways
pub mod Sizes
pub mod Described
pub mod Operands
pub mod VerifiedOps
pub mod DeviceForms
