pub mod Lists
pub mod Rest
pub mod Walked
pub mod Sizes
