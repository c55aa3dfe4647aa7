pub mod Following
pub mod TwoInts
