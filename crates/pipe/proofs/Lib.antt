pub mod Cases
pub mod Held
pub mod Hand
pub mod Laws
