pub mod Darts
pub mod Cells
pub mod Atlases
pub mod Followed
pub mod Pending
pub mod Tables
pub mod Joined
