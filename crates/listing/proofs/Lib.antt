pub mod Puts
pub mod Digits
pub mod Closings
pub mod Words
pub mod Single
pub mod Example
