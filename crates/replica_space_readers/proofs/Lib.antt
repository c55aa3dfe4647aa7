pub mod Reading
pub mod Draining
pub mod Showing
pub mod Running
