mod Whole
pub mod AnswerLaws
pub mod RoomLaws
