pub mod Loud
