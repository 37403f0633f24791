pub mod TokensOf
pub mod ReadsBack
pub mod Printable
