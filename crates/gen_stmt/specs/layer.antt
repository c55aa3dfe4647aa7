pub mod Meanings
pub mod Codes
pub mod Enters
pub mod Programs
pub mod Ways
