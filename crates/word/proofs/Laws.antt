pub mod Carry
pub mod Sum
pub mod CheckWord
pub mod Checks
