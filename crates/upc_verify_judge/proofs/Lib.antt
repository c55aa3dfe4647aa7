pub mod Turns
pub mod Meanings
pub mod Wants
pub mod Judging
pub mod Cases
pub mod Sounding
