mod Whole
pub mod Example
pub mod ResponseLaws
