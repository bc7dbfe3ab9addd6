pub mod JumpsLaws
