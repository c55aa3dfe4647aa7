pub mod Steps
pub mod Outcomes
pub mod Meets
pub mod Depths
pub mod Kept
pub mod Making
pub mod Names
pub mod Codes
