pub mod ContainsLaws
pub mod NodesLaws
pub mod ScopesLaws
