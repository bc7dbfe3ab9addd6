pub mod Format
pub mod Route
