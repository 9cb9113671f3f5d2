pub mod Commands
pub mod Codes
pub mod Reading
pub mod Answers
