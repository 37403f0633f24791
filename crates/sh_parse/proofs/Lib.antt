mod Answering
pub mod Backwards
mod FileParts
pub mod OneReading
pub mod Refusing
mod RowSteps
mod Tables
pub mod formed
