pub mod AnswerLaws
pub mod Example
