pub mod Ends
pub mod Finishes
pub mod Views
pub mod ViewTags
