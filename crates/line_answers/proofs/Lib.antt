pub mod Heard
pub mod Sized
