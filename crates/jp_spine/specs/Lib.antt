pub mod ItemTuples
pub mod Written
