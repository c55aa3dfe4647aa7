pub mod Names
pub mod Turns
pub mod Endings
pub mod Wanted
