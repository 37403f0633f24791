mod Collectives
pub mod Groups
mod Layouts
mod Samples
mod Structured
pub mod TensorCells
