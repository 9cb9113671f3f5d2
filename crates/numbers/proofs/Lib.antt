pub mod Digits
pub mod Complement
pub mod Stores
pub mod ReadBack
pub mod Below
