pub mod Placed
pub mod Finding
pub mod EachCell
pub mod Rows
pub mod Sums
