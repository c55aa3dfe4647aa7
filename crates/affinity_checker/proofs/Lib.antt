pub mod Firsts
pub mod WorkedRows
