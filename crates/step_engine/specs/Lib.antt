pub mod Crossings
pub mod Detours
