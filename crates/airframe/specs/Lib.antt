pub mod Building
pub mod Given
pub mod Reading
pub mod Sending
pub mod Statements
