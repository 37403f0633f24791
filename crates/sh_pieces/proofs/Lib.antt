pub mod Names
pub mod Lists
pub mod Renamed
pub mod Bridge
pub mod Parts
pub mod Steps
pub mod Examples
pub mod Halves
