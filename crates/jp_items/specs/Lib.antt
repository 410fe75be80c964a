pub mod Numbers
pub mod Params
pub mod Rows
pub mod Scenes
pub mod Seeing
pub mod Sights
