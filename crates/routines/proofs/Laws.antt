pub mod Lists
pub mod Order
pub mod Highest
pub mod Schedule
pub mod Kept
pub mod Own
pub mod Table
pub mod Facts
