pub mod Letters
pub mod Asked
pub mod Statements
