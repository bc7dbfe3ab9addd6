pub mod SourceType
