pub mod Asks
pub mod Sound
