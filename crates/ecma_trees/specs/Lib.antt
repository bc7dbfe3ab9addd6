pub mod Rose
pub mod Walk
pub mod Unit
pub mod Trail
