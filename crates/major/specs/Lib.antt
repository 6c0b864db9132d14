pub mod Major
pub mod Soundness
pub mod Place
pub mod Shape
