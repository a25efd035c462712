pub mod AskFound
pub mod Found
pub mod Moved
pub mod NamedLaws
