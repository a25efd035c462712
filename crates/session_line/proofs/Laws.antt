pub mod Feeds
pub mod Grows
pub mod Holding
pub mod Sessions
pub mod Steps
pub mod Strides
