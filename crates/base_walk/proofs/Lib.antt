pub mod AboveLaws
pub mod OnLaws
pub mod PreorderLaws
