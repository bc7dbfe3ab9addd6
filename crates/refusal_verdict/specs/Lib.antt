pub mod First
pub mod Refusals
pub mod Verdict
