pub mod Histories
pub mod Readings
pub mod Ways
pub mod Texts
pub mod Sizes
pub mod Replies
pub mod WalkReadings
pub mod TreeReadings
