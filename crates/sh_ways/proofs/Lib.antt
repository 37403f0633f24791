pub mod Passes
pub mod Least
mod Walks
pub mod Transfer
pub mod Numbering
mod Examples
