pub mod Stop
pub mod Begins
pub mod Claims
pub mod Steps
