pub mod Lengths
pub mod Same
pub mod Laid
pub mod Outcomes
pub mod Laws
pub mod Guard
pub mod Single
