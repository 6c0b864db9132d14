pub mod Buffers
pub mod Lent
pub mod Steps
pub mod Guard
pub mod Inner
