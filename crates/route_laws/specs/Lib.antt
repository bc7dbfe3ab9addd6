pub mod Claims
pub mod Changed
pub mod Shared
pub mod Inside
pub mod Fits
