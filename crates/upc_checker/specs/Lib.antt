pub mod Units
pub mod Limits
pub mod Outcomes
pub mod code
