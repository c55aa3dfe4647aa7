pub mod Expression
pub mod Run
