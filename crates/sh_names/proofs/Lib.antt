mod Along
mod Defining
mod Distinct
pub mod Keeping
mod Numbered
pub mod OneMention
pub mod Owned
mod Regions
