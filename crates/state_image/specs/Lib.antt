pub mod Units
pub mod Files
pub mod Routines
pub mod Images
