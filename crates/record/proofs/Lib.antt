pub mod Columns
pub mod Order
pub mod Opened
pub mod Kept
pub mod Types
pub mod Told
pub mod Single
