pub mod Elements
pub mod Results
pub mod Bounds
