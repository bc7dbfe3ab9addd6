pub mod Labels
pub mod Breaches
pub mod Changed
pub mod Findings
pub mod Examples
