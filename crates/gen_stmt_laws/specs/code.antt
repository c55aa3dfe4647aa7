pub mod Fitting
pub mod Accepted
