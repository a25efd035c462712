pub mod Rows
pub mod Events
pub mod Sheet
pub mod Desks
pub mod Runs
