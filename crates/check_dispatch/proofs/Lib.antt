pub mod FindingsLaws
pub mod FormerLaws
pub mod ReportedLaws
