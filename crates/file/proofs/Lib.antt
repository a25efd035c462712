pub mod ArrivalLaws
pub mod SlotLaws
pub mod Which
pub mod Changed
