pub mod Fields
pub mod Floats
pub mod Pairs
pub mod Single
