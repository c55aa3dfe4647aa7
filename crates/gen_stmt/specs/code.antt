pub mod Parts
pub mod Views
pub mod Compiled
pub mod Pushes
