pub mod Digits
pub mod Fields
pub mod Writes
pub mod Formed
pub mod Frames
pub mod Answers
pub mod Leads
