pub mod Congruence
pub mod Merged
