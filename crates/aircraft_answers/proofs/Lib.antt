pub mod Texts
pub mod Built
pub mod Lines
pub mod Asking
pub mod OneLine
pub mod Kept
pub mod Replies
pub mod Answers
