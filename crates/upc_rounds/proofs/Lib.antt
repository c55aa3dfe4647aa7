pub mod Running
pub mod Spending
pub mod Standings
pub mod Playing
pub mod Parts
pub mod Teams
pub mod Closings
pub mod Beginnings
pub mod Timing
pub mod Ending
pub mod Whole
pub mod Cuts
mod RoundRows
pub mod Handing
