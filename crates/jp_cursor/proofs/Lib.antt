pub mod Behind
pub mod Digits
pub mod FirstFacts
pub mod Taken
pub mod Turns
