pub mod Calls
pub mod Made
pub mod Theorem
