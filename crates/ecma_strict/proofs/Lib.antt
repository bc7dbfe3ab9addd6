pub mod BodiesLaws
pub mod ExamplesNames
pub mod ExamplesStatements
