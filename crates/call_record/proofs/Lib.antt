pub mod Seals
pub mod PutSteps
pub mod GetSteps
