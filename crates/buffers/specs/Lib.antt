pub mod Copying
pub mod Laying
pub mod Clearing
pub mod Working
