pub mod WidthsLaws
