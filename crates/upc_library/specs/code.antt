pub mod Printing
pub mod Cursors
pub mod Areas
pub mod Kept
pub mod Ranges
