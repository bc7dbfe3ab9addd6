pub mod BoundLaws
pub mod ClassLaws
pub mod LabelLaws
pub mod PartsLaws
pub mod RoomLaws
pub mod RunLaws
pub mod UpLaws
