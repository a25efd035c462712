pub mod Codecs
pub mod Loops
pub mod Numbers
pub mod Tight
