pub mod Kept
pub mod Held
pub mod Laid
pub mod Locals
pub mod Straight
