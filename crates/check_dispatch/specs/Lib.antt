pub mod Findings
pub mod Rule
pub mod Lent
pub mod Reported
pub mod Former
