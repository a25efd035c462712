pub mod Events
pub mod Follows
pub mod Bounds
pub mod Places
