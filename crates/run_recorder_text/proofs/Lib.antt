pub mod Joins
pub mod Wholes
pub mod SomeWords
pub mod Counting
