pub mod BoundedDown
pub mod Equations
pub mod Exact
pub mod FoldExact
pub mod LevelsExact
