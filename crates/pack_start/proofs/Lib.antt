pub mod FreshTheorems
pub mod FreezeTheorems
