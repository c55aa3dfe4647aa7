pub mod TwoInts
