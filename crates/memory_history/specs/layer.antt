pub mod World
pub mod Turns
