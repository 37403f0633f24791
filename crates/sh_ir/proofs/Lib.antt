pub mod KeptLaws
pub mod TypeLaws
