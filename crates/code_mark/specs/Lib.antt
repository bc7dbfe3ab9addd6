pub mod Read
pub mod Marks
pub mod Now
