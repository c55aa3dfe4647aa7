pub mod Since
pub mod Parting
pub mod Pointing
pub mod Watching
pub mod Threads
