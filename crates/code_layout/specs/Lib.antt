pub mod Widths
pub mod Context
pub mod Words
pub mod Exact
pub mod Shaped
