pub mod Files
pub mod Judged
pub mod Requests
pub mod Soundness
