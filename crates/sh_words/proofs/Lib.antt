pub mod Finds
pub mod Names
pub mod Steps
pub mod Walked
pub mod Found
pub mod Taken
pub mod Decimals
