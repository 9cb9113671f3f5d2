pub mod Ranges
pub mod Setting
