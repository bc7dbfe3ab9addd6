pub mod Examples
pub mod LengthLaws
pub mod MostLaws
pub mod UnitNodesLaws
pub mod KindsLaws
