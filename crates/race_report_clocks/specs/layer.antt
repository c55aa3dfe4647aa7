pub mod Channels
pub mod Clocks
pub mod Knowing
