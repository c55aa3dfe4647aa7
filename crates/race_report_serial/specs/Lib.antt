pub mod Sequential
