pub mod Close
pub mod Open
