pub mod Tables
pub mod Rows
pub mod Groups
pub mod Steps
pub mod Locks
pub mod Behind
