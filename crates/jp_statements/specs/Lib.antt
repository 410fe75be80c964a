pub mod Entries
pub mod Examples
pub mod Layers
pub mod Sources
pub mod Whole
