pub mod Finding
pub mod Whole
pub mod Told
