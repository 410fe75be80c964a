pub mod Answer
pub mod Classes
pub mod Grammar
pub mod Nesting
pub mod Nodes
pub mod Place
pub mod Seen
pub mod SeenTokens
