pub mod Entries
pub mod Built
pub mod StatementRows
mod SharedNumbers
