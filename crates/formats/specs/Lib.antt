pub mod Part
pub mod Wholes
pub mod Fields
