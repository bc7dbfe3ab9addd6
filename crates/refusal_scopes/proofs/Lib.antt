pub mod ScopesLaws
