pub mod Supers
pub mod Raised
pub mod Changed
pub mod SupersByScopes
pub mod ScopesFit
