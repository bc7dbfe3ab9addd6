pub mod ClassesLaws
pub mod ElementsLaws
