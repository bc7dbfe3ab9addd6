pub mod PrintLaws
pub mod Example
