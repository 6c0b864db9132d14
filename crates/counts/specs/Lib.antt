pub mod Codes
pub mod Sums
