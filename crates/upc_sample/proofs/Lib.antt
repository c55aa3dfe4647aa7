pub mod Parts
pub mod Lengths
