pub mod Types
pub mod Running
pub mod Expressions
pub mod Statements
pub mod Threads
pub mod Laws
pub mod layer
