pub mod Calls
pub mod Ons
