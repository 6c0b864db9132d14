pub mod Snapshot
pub mod Soundness
pub mod Place
pub mod Inner
