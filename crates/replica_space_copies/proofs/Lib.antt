pub mod Holding
pub mod Letters
pub mod Lows
pub mod Meeting
pub mod Sames
pub mod Stepping
pub mod Waiting
