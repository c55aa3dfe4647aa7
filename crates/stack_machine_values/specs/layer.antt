pub mod Quick
pub mod Works
