pub mod Reserved
pub mod Short
pub mod Order
pub mod Written
pub mod Unfit
pub mod Firsts
