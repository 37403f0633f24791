pub mod SourceOps
pub mod VerifiedSource
pub mod PartsLike
