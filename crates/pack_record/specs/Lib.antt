pub mod Misused
pub mod Gets
pub mod Skips
pub mod Puts
pub mod Only
pub mod Seals
