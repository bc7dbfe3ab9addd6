pub mod Contexts
pub mod Turn
