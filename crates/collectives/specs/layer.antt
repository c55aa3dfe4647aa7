pub mod Left
pub mod Wishes
pub mod Walks
pub mod Arguments
