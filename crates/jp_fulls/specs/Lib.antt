pub mod Fulls
pub mod Leaves
pub mod Sides
