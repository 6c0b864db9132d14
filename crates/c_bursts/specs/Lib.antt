pub mod Bursts
pub mod Seconds
