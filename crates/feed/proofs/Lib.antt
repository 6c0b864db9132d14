pub mod Cuts
pub mod Rests
pub mod Turns
pub mod Laws
pub mod Tellings
pub mod Single
