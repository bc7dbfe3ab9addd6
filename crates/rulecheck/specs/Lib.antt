pub mod Response
