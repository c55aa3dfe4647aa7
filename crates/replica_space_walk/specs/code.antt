pub mod Walking
pub mod Given
