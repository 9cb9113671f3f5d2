pub mod Inside
pub mod Laws
pub mod Missing
pub mod Narrow
pub mod Numbers
