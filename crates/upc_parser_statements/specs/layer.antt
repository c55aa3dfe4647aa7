pub mod Tables
pub mod Parse
