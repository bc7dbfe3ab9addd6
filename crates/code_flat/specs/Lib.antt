pub mod Opcodes
pub mod Code
pub mod Machine
pub mod Own
pub mod Claims
pub mod Forward
pub mod Leg
pub mod Has
