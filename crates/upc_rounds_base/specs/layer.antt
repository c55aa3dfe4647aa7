pub mod Openings
pub mod Ending
