pub mod Marks
pub mod Called
pub mod Parts
pub mod Judged
pub mod layer
pub mod code
