pub mod FirstConstructorLaws
pub mod WholeLaws
pub mod Theorems
pub mod Example
