pub mod Layout
pub mod Output
