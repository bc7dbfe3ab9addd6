pub mod Literals
pub mod Delete
pub mod Changed
pub mod EscapeSpans
