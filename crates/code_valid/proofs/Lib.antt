pub mod ReadingLaws
pub mod WalkLaws
