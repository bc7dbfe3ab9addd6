pub mod Escapes
pub mod Literals
