pub mod Runners
pub mod Settings
