pub mod Calls
pub mod Reductions
pub mod Parts
pub mod Elements
pub mod Tests
