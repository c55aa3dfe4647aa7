pub mod Numbers
pub mod Sizes
pub mod Doings
pub mod Sized
pub mod AtOnce
pub mod Asking
pub mod MemoryCalls
pub mod CollectiveCalls
