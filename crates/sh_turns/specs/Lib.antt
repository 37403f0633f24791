pub mod Program
pub mod Lockstep
pub mod World
pub mod Law
