mod Trees
mod Samples
mod MoreSamples
mod FaultSamples
pub mod Kept
pub mod Finished
pub mod Replies
pub mod Framed
pub mod InTurn
pub mod Beats
pub mod Going
pub mod Forming
pub mod Beginnings
pub mod Rows
pub mod Mains
