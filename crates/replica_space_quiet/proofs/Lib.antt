pub mod Kept
pub mod Quiet
