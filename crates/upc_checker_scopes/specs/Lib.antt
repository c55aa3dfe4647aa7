pub mod Counts
pub mod Walk
pub mod Defined
pub mod Known
pub mod Places
pub mod layer
pub mod code
