pub mod ContainsLaws
pub mod ScopesFitLaws
pub mod SuperSearchLaws
pub mod SupersByScopesLaws
pub mod SupersLaws
