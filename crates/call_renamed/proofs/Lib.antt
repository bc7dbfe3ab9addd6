pub mod CallLaws
pub mod StateLaws
pub mod Theorem
pub mod UnitLaws
pub mod WrittenLaws
