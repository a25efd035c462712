pub mod Example
pub mod History
pub mod Machine
pub mod Parts
