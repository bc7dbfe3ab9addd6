pub mod EndLaws
pub mod OffsetLaws
pub mod PlacesLaws
pub mod TurnLaws
