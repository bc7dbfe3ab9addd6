pub mod FunctionsLaws
pub mod LabelledLaws
pub mod StatementsLaws
pub mod UsingLaws
