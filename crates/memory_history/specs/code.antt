pub mod Calling
pub mod HeapAfter
pub mod LocksAfter
pub mod BarrierAfter
pub mod MeetsAfter
pub mod After
pub mod Calls
pub mod Acting
