pub mod Letters
pub mod Stepping
pub mod Walks
pub mod Ending
