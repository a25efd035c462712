pub mod Frames
pub mod OpenTheorems
pub mod CloseTheorems
pub mod ByMask
