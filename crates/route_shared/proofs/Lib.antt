pub mod InStepLaws
