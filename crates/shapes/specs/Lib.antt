pub mod Frames
pub mod States
pub mod Fields
pub mod Closed
