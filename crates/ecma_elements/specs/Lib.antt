pub mod ClassElements
pub mod Raised
pub mod Changed
