pub mod Wholes
pub mod Ready
pub mod Changed
pub mod AskTheorems
pub mod ReportTheorems
pub mod ReportWords
