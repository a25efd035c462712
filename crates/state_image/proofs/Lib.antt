pub mod Posts
pub mod Tags
pub mod Keeps
pub mod Joined
pub mod Theorems
