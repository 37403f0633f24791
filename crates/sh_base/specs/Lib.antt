pub mod Cells
pub mod Limits
pub mod Rules
pub mod Shape
