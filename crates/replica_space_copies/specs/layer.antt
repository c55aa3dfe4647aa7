pub mod Copies
pub mod Same
pub mod Counts
