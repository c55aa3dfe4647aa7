pub mod Stalls
