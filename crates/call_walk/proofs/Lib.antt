pub mod WalkedLaws
