pub mod TensorLaws
pub mod RunLaws
pub mod SliceLaws
pub mod JoinLaws
