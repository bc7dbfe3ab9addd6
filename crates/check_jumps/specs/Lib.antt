pub mod Jumps
