pub mod Lookups
pub mod Stored
pub mod Answered
