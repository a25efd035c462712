pub mod Ages
pub mod Onces
pub mod Lines
