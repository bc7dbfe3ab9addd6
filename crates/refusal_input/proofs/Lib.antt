pub mod ByKindLaws
pub mod FormerLaws
pub mod InputLaws
