pub mod Live
pub mod Cells
pub mod Beginnings
pub mod code
