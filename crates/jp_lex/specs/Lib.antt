pub mod Answer
pub mod Chars
pub mod Cutting
pub mod Scan
