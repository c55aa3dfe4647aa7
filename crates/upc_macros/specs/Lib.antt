pub mod Spelling
pub mod Replacing
pub mod Continuation
pub mod Directives
pub mod Expansion
pub mod code
