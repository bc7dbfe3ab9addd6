pub mod BeginsLaws
pub mod MarksLaws
pub mod TakenLaws
