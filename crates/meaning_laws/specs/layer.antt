pub mod Values
pub mod Formed
pub mod FormedStatements
pub mod Uses
pub mod Copies
