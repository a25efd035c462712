pub mod Fresh
pub mod Freeze
