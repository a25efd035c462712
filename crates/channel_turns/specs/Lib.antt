pub mod Scans
pub mod Starts
pub mod Turns
pub mod Desks
pub mod Standings
