pub mod Parameters
pub mod ReservedWords
pub mod Identifiers
pub mod Changed
