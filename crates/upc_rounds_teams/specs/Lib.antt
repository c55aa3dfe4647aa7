pub mod Rounds
pub mod layer
