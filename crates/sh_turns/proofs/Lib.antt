pub mod Table
pub mod Moves
pub mod Kept
pub mod Progress
pub mod Count
pub mod InStep
pub mod EveryOrder
pub mod Examples
