pub mod Codes
pub mod Contexts
pub mod Finding
pub mod Raises
