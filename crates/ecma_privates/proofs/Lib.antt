pub mod PrivateNamesLaws
pub mod PrivateTwiceLaws
