pub mod RenameLaws
pub mod TwiceLaws
