pub mod Crews
pub mod Gains
pub mod Items
pub mod Meetings
pub mod Prefixes
pub mod Resting
pub mod Rounding
