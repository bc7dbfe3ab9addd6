pub mod Kinds
pub mod Roles
pub mod NodeFlag
pub mod ScopeFlag
pub mod Extras
pub mod Table
pub mod Facts
