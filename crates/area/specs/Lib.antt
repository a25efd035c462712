pub mod Lists
pub mod Masks
pub mod Numbered
pub mod Parts
pub mod Refusals
