pub mod Turns
pub mod Lawful
