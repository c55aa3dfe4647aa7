pub mod Members
pub mod Ends
mod Sorting
mod Keeping
mod Opening
mod Steps
