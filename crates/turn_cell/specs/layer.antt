pub mod Members
pub mod Seats
