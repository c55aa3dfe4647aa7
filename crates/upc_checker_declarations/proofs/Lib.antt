pub mod Exprs
pub mod Coming
