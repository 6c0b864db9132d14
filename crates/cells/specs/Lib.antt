pub mod Words
pub mod Laying
pub mod Bytes
pub mod Raw
pub mod Inner
