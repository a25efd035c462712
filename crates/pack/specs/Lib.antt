pub mod Calls
pub mod Answers
pub mod Histories
pub mod Tables
pub mod Books
