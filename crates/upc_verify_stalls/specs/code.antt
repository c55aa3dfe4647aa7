pub mod Points
pub mod Searches
pub mod Watches
