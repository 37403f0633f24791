pub mod GroupLaws
pub mod GroupSteps
