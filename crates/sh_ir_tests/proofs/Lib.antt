mod Breaking
mod Whole
