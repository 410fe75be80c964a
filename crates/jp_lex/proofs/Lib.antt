mod Answers
mod Bytes
mod Gaps
mod Places
mod Found
mod Edges
mod Next
mod Once
mod Values
mod Whole
pub mod TextLaws
