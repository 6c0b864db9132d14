pub mod Soundness
pub mod Closed
pub mod Deciding
pub mod Ending
pub mod Keeping
pub mod Inner
