pub mod Steps
pub mod Casts
pub mod Access
pub mod layer
