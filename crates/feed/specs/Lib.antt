pub mod Cutting
pub mod Feeding
