pub mod Words
pub mod Lines
pub mod Short
pub mod code
