pub mod StepsLaws
pub mod StatementLaws
