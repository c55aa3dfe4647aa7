pub mod Lists
pub mod Options
pub mod Buffers
pub mod Recorders
pub mod Turns
pub mod Workers
pub mod Seen
