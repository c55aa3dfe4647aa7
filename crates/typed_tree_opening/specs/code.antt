pub mod ViewSettings
pub mod LaidObjects
pub mod Pending
pub mod Apart
