pub mod Free
pub mod Serving
pub mod Masks
