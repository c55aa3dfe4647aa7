pub mod NumberParts
pub mod Found
