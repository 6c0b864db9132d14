pub mod Answers
pub mod Handing
