pub mod Contains
pub mod BoundNames
pub mod Changed
pub mod NodeRules
