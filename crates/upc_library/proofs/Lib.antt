pub mod Ranges
pub mod Steps
pub mod Cursors
pub mod Compared
pub mod NextCell
pub mod Walking
