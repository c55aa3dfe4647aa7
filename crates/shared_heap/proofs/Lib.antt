pub mod ByLocation
pub mod Objects
pub mod Placed
pub mod Places
pub mod Starts
