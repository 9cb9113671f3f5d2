pub mod Words
pub mod Spoken
pub mod Promise
pub mod Statements
