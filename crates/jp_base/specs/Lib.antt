pub mod Answers
pub mod Cells
pub mod Sets
pub mod Truth
pub mod Values
