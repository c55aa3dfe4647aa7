pub mod layer
pub mod code
