pub mod FormedPrograms
pub mod LaidPrograms
pub mod Defaults
pub mod Laws
