pub mod Splits
pub mod Holding
pub mod Pushed
