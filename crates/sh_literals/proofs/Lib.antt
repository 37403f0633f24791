mod Bytes
mod Counts
mod Ended
mod Reversed
mod Wholes
