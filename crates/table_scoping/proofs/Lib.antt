pub mod ScopingLaws
