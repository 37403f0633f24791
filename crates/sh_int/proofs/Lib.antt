pub mod SignedLaws
pub mod ElementLaws
pub mod ReductionLaws
