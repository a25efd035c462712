pub mod Open
pub mod Close
