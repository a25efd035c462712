pub mod Ops
pub mod Units
