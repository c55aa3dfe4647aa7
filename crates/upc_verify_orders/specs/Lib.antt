pub mod Given
pub mod Strict
pub mod layer
pub mod code
