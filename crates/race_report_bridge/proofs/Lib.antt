pub mod Alone
pub mod Linking
pub mod Knowing
pub mod Telling
pub mod Racing
