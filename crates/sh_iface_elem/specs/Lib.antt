pub mod ElementOf
