pub mod Rules
pub mod Breaches
