pub mod Text
pub mod Decimal
pub mod Lines
pub mod Refusals
pub mod Inner
