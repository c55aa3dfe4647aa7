pub mod Tally
pub mod Schedules
pub mod Text
pub mod Found
pub mod code
