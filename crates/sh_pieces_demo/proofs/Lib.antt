pub mod Running
pub mod Shifting
