pub mod Memory
pub mod Text
