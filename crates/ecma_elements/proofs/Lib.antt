pub mod ClassElementsLaws
pub mod Keys
pub mod ObjectsLaws
pub mod RaisingLaws
