pub mod IndexLaws
pub mod SearchLaws
