pub mod Changes
pub mod Order
pub mod Posts
pub mod Ranks
pub mod Right
pub mod Schedule
pub mod Waits
