pub mod Ends
pub mod layer
pub mod code
