pub mod Barrier
pub mod Locks
