pub mod Bins
pub mod Meant
pub mod Single
