pub mod FirstsLaws
pub mod OrderLaws
pub mod ShortLaws
pub mod TwiceLaws
pub mod UnfitLaws
pub mod WriteLaws
pub mod WrittenLaws
