pub mod Lists
pub mod Ran
pub mod Sequence
pub mod TableFacts
pub mod Turns
mod Rolled
mod Seen
