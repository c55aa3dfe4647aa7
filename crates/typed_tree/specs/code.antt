pub mod ViewEntries
pub mod ViewScopes
