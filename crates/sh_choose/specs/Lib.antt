pub mod Proposals
pub mod Thinned
pub mod Weights
pub mod Least
pub mod Bounds
