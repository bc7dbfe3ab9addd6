pub mod FieldLaws
pub mod SplitLaws
