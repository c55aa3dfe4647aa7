pub mod Parts
pub mod code
