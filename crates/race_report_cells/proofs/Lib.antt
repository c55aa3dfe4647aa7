pub mod Noting
pub mod Choosing
pub mod Keyed
pub mod Walking
