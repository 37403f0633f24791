pub mod Machine
pub mod Scripts
pub mod States
pub mod Sound
pub mod Turning
pub mod History
