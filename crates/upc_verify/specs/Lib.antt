pub mod Verdicts
pub mod code
