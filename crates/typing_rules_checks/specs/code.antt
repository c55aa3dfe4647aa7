pub mod Labels
pub mod ViewFound
