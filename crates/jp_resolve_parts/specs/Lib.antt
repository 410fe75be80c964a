pub mod Bounds
pub mod Finds
pub mod Orders
pub mod Outs
pub mod Views
