pub mod Folds
pub mod LoopSplits
pub mod Parallel
pub mod SplitReduction
pub mod RegionKinds
pub mod StepKinds
