pub mod NextLaws
pub mod PendingLaws
pub mod TurnLaws
