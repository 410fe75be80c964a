pub mod Rejected
pub mod Runs
pub mod TestLaws
