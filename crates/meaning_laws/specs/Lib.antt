pub mod code
pub mod layer
