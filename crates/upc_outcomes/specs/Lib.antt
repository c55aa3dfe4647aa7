pub mod Plans
pub mod Verdicts
pub mod Causes
pub mod Answers
pub mod code
