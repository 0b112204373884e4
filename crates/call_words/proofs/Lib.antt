pub mod Lists
pub mod OneTask
pub mod Reading
pub mod Pairs
