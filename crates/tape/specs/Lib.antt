pub mod Characters
pub mod Faults
pub mod Images
pub mod Lengths
pub mod Reading
pub mod Records
pub mod Reels
pub mod Writing
