pub mod Arrivals
pub mod Slots
pub mod Sides
pub mod Fills
pub mod Sizes
pub mod Changes
