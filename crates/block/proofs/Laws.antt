pub mod Agree
pub mod Block
pub mod Finds
