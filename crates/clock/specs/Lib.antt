pub mod Clock
pub mod Jumps
