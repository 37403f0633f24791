pub mod ElementGiven
pub mod ElementCut
pub mod Implied
pub mod ElementRules
pub mod ElementLaws
pub mod SplitViews
pub mod Examples
mod LawExamples
pub mod ElementOf
pub mod SplitLists
pub mod ImpliedViewLaws
pub mod MakingLaws
pub mod PartLaws
