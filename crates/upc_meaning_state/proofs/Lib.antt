mod AtOnce
mod Libraries
mod Receiving
pub mod Thens
mod Walking
mod MemoryCalls
mod CollectiveCalls
