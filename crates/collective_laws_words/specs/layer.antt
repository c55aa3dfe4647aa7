pub mod Steps
pub mod Interface
