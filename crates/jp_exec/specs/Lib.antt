pub mod Cells
pub mod Columns
pub mod Given
pub mod Interiors
pub mod Running
