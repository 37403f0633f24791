pub mod Layout
pub mod Pages
pub mod Words
pub mod Values
pub mod Spellings
pub mod Tokens
pub mod Examples
pub mod LayoutLaw
