pub mod Laws
pub mod Jumps
