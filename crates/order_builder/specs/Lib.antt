pub mod Named
pub mod code
pub mod layer
