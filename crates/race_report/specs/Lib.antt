pub mod Races
pub mod Reach
pub mod Serial
pub mod code
