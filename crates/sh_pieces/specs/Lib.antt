pub mod Instructions
pub mod Runs
pub mod Renaming
pub mod Right
pub mod Laws
pub mod Promises
