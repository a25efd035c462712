pub mod OnLaws
pub mod Theorems
