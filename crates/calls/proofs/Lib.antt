pub mod Asked
pub mod Handed
pub mod Lents
pub mod Laws
