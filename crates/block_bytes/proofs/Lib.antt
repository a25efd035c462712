pub mod Bringing
pub mod Sealing
