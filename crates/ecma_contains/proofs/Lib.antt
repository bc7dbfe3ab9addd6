pub mod BoundNamesLaws
pub mod ExamplesBoundNames
