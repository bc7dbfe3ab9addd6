pub mod Walked
pub mod Theorem
