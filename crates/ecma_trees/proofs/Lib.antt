pub mod TrailLaws
pub mod RoseLaws
pub mod UnitLaws
pub mod WalkLaws
pub mod ProgramLaws
pub mod Rule
