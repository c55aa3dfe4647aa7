pub mod Crews
