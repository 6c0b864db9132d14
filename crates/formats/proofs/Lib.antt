pub mod Laws
pub mod Offsets
pub mod Fields
pub mod Places
