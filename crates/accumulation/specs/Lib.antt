pub mod Accumulation
pub mod Soundness
pub mod Place
pub mod Inner
