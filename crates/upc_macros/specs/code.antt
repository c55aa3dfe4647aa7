pub mod Table
pub mod Walk
pub mod Effects
pub mod Lines
pub mod Known
