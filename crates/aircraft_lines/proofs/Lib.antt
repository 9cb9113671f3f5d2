pub mod Numbered
pub mod Said
pub mod Texts
pub mod Heard
pub mod Carried
pub mod Printed
pub mod Lines
