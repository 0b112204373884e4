pub mod Ways
pub mod Corners
pub mod Growth
pub mod Tiles
pub mod Regions
pub mod Passes
pub mod Answers
pub mod Calls
