pub mod Counts
pub mod Entries
pub mod Joins
pub mod Ready
pub mod Splits
pub mod Tables
pub mod TreeOrder
