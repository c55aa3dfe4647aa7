pub mod Course
pub mod Runs
pub mod Teams
pub mod Places
pub mod Played
