pub mod Ask
pub mod Effects
pub mod Named
pub mod Report
pub mod Moves
