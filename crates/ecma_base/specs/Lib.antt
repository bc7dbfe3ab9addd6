pub mod Strict
pub mod Telling
pub mod Contains
pub mod Scopes
pub mod Nodes
