pub mod Scans
pub mod Starts
pub mod Masks
pub mod Desks
