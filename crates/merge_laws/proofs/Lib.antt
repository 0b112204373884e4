pub mod Copies
pub mod Paths
pub mod Numbers
pub mod Conditions
pub mod Trees
pub mod Unique
