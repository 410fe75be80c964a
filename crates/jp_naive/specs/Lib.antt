pub mod Frames
pub mod Joining
pub mod Lines
pub mod Numbers
pub mod Running
pub mod Sublinks
pub mod Whole
