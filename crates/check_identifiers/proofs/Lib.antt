pub mod IdentifierLaws
