pub mod Examples
pub mod Folding
