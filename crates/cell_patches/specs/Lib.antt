pub mod Patches
pub mod Settling
