pub mod Deadlocks
pub mod Playing
pub mod Unlocked
