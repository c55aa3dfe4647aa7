pub mod Outcome
pub mod Tables
pub mod Ahead
pub mod Run
