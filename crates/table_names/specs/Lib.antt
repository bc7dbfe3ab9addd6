pub mod Name
pub mod Words
