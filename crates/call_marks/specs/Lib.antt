pub mod Marked
pub mod Calls
pub mod Made
pub mod Theorem
