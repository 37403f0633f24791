pub mod Building
pub mod Meaning
pub mod Readings
pub mod Rows
pub mod Sections
pub mod Sizes
