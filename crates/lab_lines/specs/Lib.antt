pub mod Ranges
pub mod Asked
