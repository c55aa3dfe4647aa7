pub mod Specifiers
pub mod Members
pub mod Shapes
pub mod layer
pub mod code
