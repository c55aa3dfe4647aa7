mod Owning
pub mod Resting
mod Places
pub mod Going
