pub mod Events
pub mod Loud
pub mod Alone
pub mod Dues
pub mod Keeping
