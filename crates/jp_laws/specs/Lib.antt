pub mod Agreement
pub mod Bags
pub mod Labels
pub mod Lines
pub mod Referred
pub mod Rooted
pub mod SameCells
pub mod TreesInside
