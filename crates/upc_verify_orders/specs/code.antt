pub mod Tables
pub mod Program
pub mod Values
pub mod Below
pub mod Found
pub mod Keys
pub mod Orders
