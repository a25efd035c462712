pub mod Blocks
pub mod Ledgers
