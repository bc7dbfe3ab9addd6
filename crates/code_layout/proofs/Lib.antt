pub mod ExactLaws
pub mod Examples
pub mod Made
pub mod Stands
pub mod LayoutLaws
pub mod Nodes
pub mod Sums
