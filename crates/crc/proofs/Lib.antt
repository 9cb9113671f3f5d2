pub mod Laws
pub mod Xor
pub mod Linear
pub mod Register
pub mod Bytes
pub mod Fold
pub mod Damage
