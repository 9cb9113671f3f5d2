pub mod Orders
pub mod Lengths
