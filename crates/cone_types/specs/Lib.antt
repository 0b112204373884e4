pub mod Cones
pub mod Looks
pub mod Partitions
pub mod Representatives
