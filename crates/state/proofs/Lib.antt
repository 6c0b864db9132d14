pub mod Facts
pub mod Decisions
pub mod Ends
pub mod Told
pub mod Keeping
pub mod Closing
pub mod Single
