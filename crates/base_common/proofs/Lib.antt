pub mod Bools
pub mod UptoLaws
pub mod WroteLaws
