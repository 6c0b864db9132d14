pub mod Samples
pub mod Field
pub mod Inner
