pub mod Openings
pub mod Begun
pub mod Outcomes
pub mod Ending
