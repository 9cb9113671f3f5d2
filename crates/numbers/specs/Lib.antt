pub mod Numbers
pub mod Layout
