pub mod Parts
pub mod Facts
pub mod Keeping
pub mod Closing
pub mod Single
