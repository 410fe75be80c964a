pub mod Examples
pub mod Frames
pub mod Legal
pub mod Maps
pub mod Methods
pub mod Rows
pub mod Steps
pub mod Trees
