pub mod BufferLaws
pub mod FileLaws
pub mod FitLaws
