pub mod Sums
pub mod Totals
pub mod CheckWords
pub mod Checks
