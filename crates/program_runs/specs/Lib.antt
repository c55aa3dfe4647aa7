pub mod Runs
pub mod Picked
