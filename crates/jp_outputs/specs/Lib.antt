pub mod Columns
pub mod Exprs
pub mod Values
pub mod Within
