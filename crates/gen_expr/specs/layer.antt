pub mod Meanings
pub mod ViewSource
pub mod Gathered
pub mod Codes
pub mod Sources
