pub mod Answers
pub mod Goods
pub mod Signs
pub mod Units
