mod Sameness
mod Adding
mod Tallies
mod Finding
pub mod Prefixes
