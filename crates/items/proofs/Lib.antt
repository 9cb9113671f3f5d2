pub mod Lists
pub mod Run
pub mod Spelled
pub mod Numerals
pub mod Pairs
pub mod Laws
pub mod Inked
pub mod Behind
