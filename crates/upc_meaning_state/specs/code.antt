pub mod Fitting
pub mod Walking
