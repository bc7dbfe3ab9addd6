pub mod Marking
pub mod Threading
pub mod Closing
