pub mod Words
pub mod Sources
pub mod Verdicts
pub mod Delivery
pub mod code
