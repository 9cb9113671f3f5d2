pub mod Characters
pub mod Text
pub mod Items
pub mod Printed
pub mod Output
