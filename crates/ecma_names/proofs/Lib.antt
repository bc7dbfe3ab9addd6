pub mod IdentifiersLaws
pub mod NamesLaws
pub mod ParametersLaws
pub mod ReservedWordsLaws
