pub mod Expressions
pub mod code
