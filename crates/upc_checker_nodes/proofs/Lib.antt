pub mod Arguments
pub mod Finished
pub mod Judged
