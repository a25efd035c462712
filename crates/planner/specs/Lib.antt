pub mod Events
pub mod Rows
pub mod Acceptable
pub mod Walk
pub mod Greedy
pub mod Good
