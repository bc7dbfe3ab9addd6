pub mod Statements
pub mod Functions
pub mod Changed
