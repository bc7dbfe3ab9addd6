pub mod Findings
pub mod Operations
pub mod Standard
pub mod AsyncBodies
