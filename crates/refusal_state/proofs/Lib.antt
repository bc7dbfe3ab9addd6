pub mod TargetsLaws
