pub mod PositiveLaws
pub mod TargetsLaws
