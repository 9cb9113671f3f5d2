pub mod Crc
pub mod Bytes
