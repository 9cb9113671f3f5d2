pub mod Tables
pub mod Port
pub mod Bounds
pub mod Lent
