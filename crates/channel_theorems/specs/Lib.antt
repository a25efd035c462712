pub mod Bound
pub mod History
pub mod Lifted
