pub mod StatementTurns
pub mod StatementsBring
