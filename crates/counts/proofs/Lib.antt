pub mod EachCode
pub mod Ranges
pub mod Added
pub mod Single
