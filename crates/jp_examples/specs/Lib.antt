pub mod Rows
pub mod Tests
pub mod Trees
