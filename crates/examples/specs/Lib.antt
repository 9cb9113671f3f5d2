pub mod Shown
pub mod Edges
pub mod Computed
pub mod Bounds
pub mod Missing
pub mod Examples
