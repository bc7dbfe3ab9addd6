pub mod Ready
pub mod Assembled
pub mod Written
