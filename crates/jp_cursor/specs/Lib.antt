pub mod Codes
pub mod Lists
pub mod Reading
pub mod Reads
