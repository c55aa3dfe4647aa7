pub mod Ranges
pub mod Recorded
pub mod code
