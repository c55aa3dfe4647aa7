pub mod Found
pub mod Cells
