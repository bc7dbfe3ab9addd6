pub mod RenamedLaws
pub mod TableLaws
pub mod NameLaws
