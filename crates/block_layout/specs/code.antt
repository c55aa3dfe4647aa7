pub mod RunErrors
pub mod Runs
pub mod SameRuns
