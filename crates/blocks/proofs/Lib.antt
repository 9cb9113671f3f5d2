pub mod Places
pub mod Bytes
pub mod Line
pub mod Laws
