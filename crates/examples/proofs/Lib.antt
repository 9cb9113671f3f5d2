pub mod Begun
pub mod Shown
pub mod Edges
pub mod NotEmpty
pub mod Bounds
pub mod Missing
pub mod Examples
