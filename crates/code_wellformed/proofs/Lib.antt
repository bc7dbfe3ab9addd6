pub mod KindsLaws
pub mod Parts
pub mod Holder
pub mod HolderReady
pub mod ReadyLaws
