pub mod CountsLaws
pub mod TallyLaws
