pub mod Pairs
pub mod Turns
pub mod EachByte
pub mod Frames
pub mod Laws
pub mod Bytes
pub mod Answers
pub mod Single
