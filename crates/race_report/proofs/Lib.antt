pub mod Lists
pub mod Moved
pub mod Covering
pub mod Crossing
pub mod Bridging
pub mod Phases
pub mod Reading
pub mod Placing
mod Rows
