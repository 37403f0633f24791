mod Members
mod Once
