pub mod Changes
pub mod Places
pub mod Replies
pub mod Turns
