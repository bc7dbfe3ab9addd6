pub mod ClassChecksLaws
