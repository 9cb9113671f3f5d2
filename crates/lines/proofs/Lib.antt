pub mod Before
pub mod Unread
pub mod Held
pub mod Stored
pub mod Forms
pub mod OneLine
pub mod Turning
