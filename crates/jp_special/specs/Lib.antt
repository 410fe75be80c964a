pub mod Placeholders
pub mod Walks
