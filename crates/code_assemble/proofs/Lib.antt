pub mod ReadyLaws
pub mod WrittenLaws
