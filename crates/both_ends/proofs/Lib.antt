pub mod MeantRead
pub mod Exchanged
pub mod Apart
pub mod Bounds
pub mod BothEnds
