pub mod Plain
pub mod Step
