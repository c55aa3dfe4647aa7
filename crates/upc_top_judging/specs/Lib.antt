pub mod Judgments
pub mod code
