pub mod Questions
pub mod Meaning
pub mod Inner
