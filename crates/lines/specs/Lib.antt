pub mod Letters
pub mod Asked
pub mod Cut
pub mod Turns
