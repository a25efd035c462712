pub mod Played
pub mod Sessions
