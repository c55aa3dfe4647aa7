pub mod Keeping
pub mod Messages
pub mod Seeing
pub mod Acting
pub mod Asking
