pub mod Added
pub mod Prefixed
