pub mod Patches
pub mod Blocks
pub mod Fills
pub mod Closing
