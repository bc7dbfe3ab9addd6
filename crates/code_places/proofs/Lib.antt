pub mod PlacingLaws
pub mod IndexLaws
