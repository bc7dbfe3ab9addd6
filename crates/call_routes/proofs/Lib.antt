pub mod CallsLaws
pub mod TheoremLaws
pub mod PlacedLaws
