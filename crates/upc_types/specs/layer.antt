pub mod Kept
pub mod Places
pub mod Named
pub mod Parts
