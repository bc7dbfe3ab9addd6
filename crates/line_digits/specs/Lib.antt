pub mod Number
pub mod Hex
