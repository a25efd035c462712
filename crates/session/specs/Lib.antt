pub mod Rooms
pub mod Player
pub mod Session
pub mod Talks
