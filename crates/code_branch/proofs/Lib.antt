pub mod BranchLaws
pub mod JumpLaws
pub mod NextLaws
