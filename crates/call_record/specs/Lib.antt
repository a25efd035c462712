pub mod Blocks
pub mod Put
pub mod Seal
pub mod Get
pub mod Skip
