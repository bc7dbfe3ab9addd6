pub mod DeleteLaws
pub mod EscapeSpansLaws
pub mod LiteralsLaws
