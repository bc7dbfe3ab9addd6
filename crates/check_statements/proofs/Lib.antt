pub mod StatementsLaws
