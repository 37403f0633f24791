pub mod LocalLaws
pub mod SliceNest
pub mod SliceOf
pub mod SliceReads
