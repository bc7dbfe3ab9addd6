pub mod MarkingLaws
pub mod ThreadingLaws
pub mod ClosingLaws
pub mod PassLaws
