pub mod Rename
pub mod Sized
