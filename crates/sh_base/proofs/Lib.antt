pub mod ShapeLaws
pub mod IndexLaws
