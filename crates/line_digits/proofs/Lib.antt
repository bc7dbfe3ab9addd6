pub mod Lists
pub mod HexLaws
pub mod NumberLaws
