pub mod Alike
pub mod Each
pub mod HandedDown
pub mod Rewritings
