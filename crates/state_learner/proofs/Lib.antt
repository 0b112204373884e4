pub mod Lists
pub mod Starting
pub mod Turns
pub mod Layers
pub mod Trials
