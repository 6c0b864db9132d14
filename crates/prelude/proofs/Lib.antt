pub mod Upto
pub mod Built
pub mod Conds
pub mod Single
pub mod Order
pub mod Marks
pub mod Arms
pub mod Every
