pub mod Faults
pub mod Found
pub mod Least
pub mod Notes
pub mod Places
pub mod Refusals
