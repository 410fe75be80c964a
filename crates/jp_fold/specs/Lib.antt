pub mod Fold
pub mod InBits
