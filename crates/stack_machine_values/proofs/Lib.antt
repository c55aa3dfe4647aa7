pub mod Halves
pub mod SmallWork
pub mod Stepping
pub mod Making
pub mod Numbers
pub mod Privates
