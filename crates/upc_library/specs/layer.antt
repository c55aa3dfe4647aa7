pub mod Spots
pub mod Walks
pub mod Wishes
