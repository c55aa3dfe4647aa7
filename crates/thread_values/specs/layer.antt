pub mod Results
pub mod Asking
pub mod Copies
pub mod Collectives
