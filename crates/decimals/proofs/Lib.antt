pub mod Digits
pub mod Pieces
pub mod Tens
pub mod Spell
pub mod Under
