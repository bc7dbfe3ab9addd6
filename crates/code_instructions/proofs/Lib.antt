pub mod PartLaws
pub mod WordsLaws
