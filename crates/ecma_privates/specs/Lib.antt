pub mod PrivateNames
pub mod Raised
pub mod Changed
