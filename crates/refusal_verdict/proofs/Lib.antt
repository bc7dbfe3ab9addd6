pub mod FirstLaws
pub mod VerdictLaws
