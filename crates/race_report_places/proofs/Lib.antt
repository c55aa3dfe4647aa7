pub mod Sights
pub mod Reporting
pub mod Walking
