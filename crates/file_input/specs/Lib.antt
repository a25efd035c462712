pub mod Delivers
pub mod Ages
pub mod Gets
pub mod Histories
