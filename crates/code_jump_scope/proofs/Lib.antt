pub mod Labels
pub mod Reach
pub mod ScopeAt
pub mod UnitScopedLaws
