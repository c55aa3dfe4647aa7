pub mod Integers
pub mod Operators
