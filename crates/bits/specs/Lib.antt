pub mod Numbers
pub mod Twelve
pub mod Putting
pub mod Signed
pub mod Pairs
pub mod Inner
