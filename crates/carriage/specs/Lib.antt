pub mod Carriage
pub mod RowNumbers
pub mod Inner
