pub mod AncestryLaws
