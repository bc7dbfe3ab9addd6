pub mod DuplicatesLaws
pub mod PreviousLaws
pub mod ScanLaws
