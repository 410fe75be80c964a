pub mod Absence
pub mod Cases
pub mod Cells
