pub mod Marks
pub mod Tokens
pub mod Expression
pub mod Proper
pub mod Declaration
pub mod Statement
pub mod Unit
pub mod layer
