pub mod Verdicts
pub mod layer
pub mod code
