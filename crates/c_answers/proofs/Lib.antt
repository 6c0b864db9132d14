pub mod Outcomes
pub mod Handing
pub mod Single
