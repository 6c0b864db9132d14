pub mod Answers
pub mod Single
