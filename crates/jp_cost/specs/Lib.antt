pub mod Costs
pub mod Digits
pub mod Estimates
pub mod Items
pub mod Rounds
pub mod Steps
pub mod TreeCosts
