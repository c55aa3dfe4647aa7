pub mod Finding
pub mod Flat
pub mod Showing
pub mod Following
pub mod Choosing
pub mod Satisfying
