pub mod Agreeing
pub mod Legality
pub mod Lists
pub mod Joining
pub mod Places
pub mod Waits
pub mod Walks
pub mod Records
pub mod Replies
pub mod Known
pub mod Scalars
pub mod Membership
pub mod Sameness
pub mod Drained
pub mod Apart
pub mod Values
pub mod Commits
pub mod Growth
pub mod Numbering
pub mod Own
pub mod Placement
pub mod Beginnings
pub mod Consistency
pub mod Parts
pub mod Unmade
pub mod Fitting
pub mod SoundOrders
pub mod Pieces
pub mod LockTurns
mod OrderRows
mod CallRows
mod LibraryRows
mod PrintingRows
mod NumberRows
