pub mod Quiet
pub mod Operations
pub mod Courses
pub mod Steps
pub mod Calls
pub mod Going
pub mod Together
