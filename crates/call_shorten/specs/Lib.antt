pub mod Shorten
