pub mod Environments
pub mod Framing
pub mod Running
