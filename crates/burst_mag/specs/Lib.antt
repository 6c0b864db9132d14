pub mod Seconds
pub mod Inner
