pub mod Barriers
pub mod Came
pub mod Libraries
pub mod Operations
