pub mod Items
pub mod Names
pub mod Nests
pub mod Planned
pub mod Runnable
pub mod Searched
pub mod Sources
