pub mod Instrs
pub mod Valid
pub mod Reading
pub mod Walk
