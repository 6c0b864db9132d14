pub mod Facts
pub mod Keeping
pub mod Closing
