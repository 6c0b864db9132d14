pub mod Layout
pub mod Frame
pub mod Signal
pub mod Refusals
pub mod Rules
pub mod Contents
pub mod Parts
pub mod Inner
