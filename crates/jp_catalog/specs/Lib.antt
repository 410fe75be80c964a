pub mod Names
pub mod Sound
pub mod Levels
pub mod Paths
pub mod Reading
