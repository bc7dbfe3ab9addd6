pub mod Labels
pub mod Parts
pub mod Statements
pub mod First
pub mod Examples
