pub mod Shared
pub mod Theorem
