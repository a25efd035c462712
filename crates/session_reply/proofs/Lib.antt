pub mod Done
pub mod Posting
pub mod Agrees
pub mod Stores
pub mod Kept
pub mod Groups
