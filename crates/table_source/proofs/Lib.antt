pub mod SourceTypeLaws
