pub mod Ends
pub mod Meetings
pub mod Deepenings
pub mod Places
mod Parts
mod Samples
