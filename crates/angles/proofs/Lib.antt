pub mod Sky
pub mod Single
