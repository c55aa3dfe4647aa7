mod Endings
mod Wanting
mod Few
pub mod Readings
pub mod Stages
mod Agreement
pub mod Records
