pub mod ReadLaws
pub mod InputLaws
pub mod RouteLaws
pub mod Sizes
pub mod Whole
pub mod Example
