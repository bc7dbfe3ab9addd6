pub mod Pending
pub mod Turn
pub mod Halted
pub mod Kept
