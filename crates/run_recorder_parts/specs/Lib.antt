pub mod Bounds
pub mod layer
