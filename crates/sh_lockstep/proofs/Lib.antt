pub mod GroupRows
pub mod Given
pub mod Faults
pub mod Alike
pub mod Progress
pub mod Starts
pub mod Locked
pub mod Verified
mod DeviceExample
mod Examples
