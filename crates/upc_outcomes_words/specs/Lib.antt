pub mod Line
pub mod Picks
pub mod Values
pub mod layer
