pub mod Totals
pub mod FoldLaws
pub mod Points
pub mod Literally
pub mod Values
pub mod Operands
pub mod Loops
pub mod Cuts
pub mod NestCut
pub mod ParallelLaw
pub mod Groups
pub mod SplitCells
pub mod Combined
pub mod Fills
pub mod SplitLaw
pub mod Instances
mod Examples
mod Uneven
pub mod RegionLaws
pub mod StepLaws
