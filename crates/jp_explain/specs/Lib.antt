pub mod Expressions
pub mod Lines
pub mod Lists
pub mod Names
pub mod Plans
pub mod Values
