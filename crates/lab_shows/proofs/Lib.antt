pub mod Spell
pub mod Firsts
pub mod Mapped
