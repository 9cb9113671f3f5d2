pub mod Calls
pub mod Memory
pub mod Promise
