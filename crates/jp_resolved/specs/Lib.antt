pub mod Sorted
