pub mod CheckLaws
pub mod FindingsLaws
pub mod NamedLaws
pub mod SuperLaws
