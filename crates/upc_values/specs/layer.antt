pub mod Known
pub mod Basic
pub mod Chunks
pub mod Parts
