pub mod ClassChecks
