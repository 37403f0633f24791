pub mod PartsLaws
pub mod LocalTypeExamples
