pub mod Length
pub mod Kinds
pub mod Most
pub mod UnitNodes
