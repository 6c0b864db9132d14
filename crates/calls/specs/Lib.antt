pub mod Contents
pub mod Reading
pub mod Feeding
pub mod Frames
pub mod Inner
