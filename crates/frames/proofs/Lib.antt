pub mod Eight
pub mod Mixed
pub mod Bounds
pub mod Sums
pub mod Bytes
pub mod Shape
pub mod Means
pub mod Laws
