pub mod Examples
pub mod PlaceLaws
