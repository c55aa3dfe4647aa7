pub mod Laws
pub mod Answered
pub mod Placed
