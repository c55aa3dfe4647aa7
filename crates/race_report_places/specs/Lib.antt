pub mod Report
pub mod layer
