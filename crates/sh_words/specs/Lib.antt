pub mod Words
pub mod Values
pub mod Tables
pub mod Meaning
pub mod Commands
