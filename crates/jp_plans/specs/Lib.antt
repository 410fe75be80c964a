pub mod KeyWords
pub mod Known
pub mod Lookups
pub mod Operators
