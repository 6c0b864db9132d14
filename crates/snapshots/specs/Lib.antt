pub mod Raw
pub mod Questions
pub mod Inner
