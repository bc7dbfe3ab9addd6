pub mod Classes
pub mod Elements
