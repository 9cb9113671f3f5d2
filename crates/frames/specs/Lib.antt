pub mod Samples
pub mod Fields
pub mod Layout
