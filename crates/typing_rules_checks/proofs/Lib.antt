pub mod Operands
pub mod Sized
pub mod Finding
pub mod Wide
