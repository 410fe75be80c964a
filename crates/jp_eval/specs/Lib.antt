pub mod Arithmetic
pub mod Computed
pub mod Concatenation
pub mod Evaluated
pub mod Evaluation
