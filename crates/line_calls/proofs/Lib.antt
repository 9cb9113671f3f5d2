pub mod Asks
pub mod Short
pub mod Steps
pub mod Parts
