pub mod Fronts
pub mod LiteralCells
