pub mod Walks
pub mod Steps
pub mod Turns
pub mod Closing
pub mod OwnTags
pub mod Numbers
pub mod SameTypes
