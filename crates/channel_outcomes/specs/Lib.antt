pub mod Positions
pub mod Rules
