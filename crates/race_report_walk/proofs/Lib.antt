pub mod Placed
pub mod Stepping
pub mod Reported
