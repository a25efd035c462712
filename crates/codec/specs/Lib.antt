pub mod Codecs
pub mod Rows
