pub mod MarkedLaws
pub mod TheoremLaws
pub mod BackLaws
