pub mod Lengths
pub mod Backward
pub mod Steps
pub mod Behind
pub mod Mains
pub mod Compiling
pub mod KnownInitials
pub mod Counts
pub mod Runs
pub mod Courses
pub mod Deeps
pub mod Gathered
pub mod Names
mod Samples
