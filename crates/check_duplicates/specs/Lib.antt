pub mod Duplicates
pub mod Scans
