pub mod Changes
pub mod Written
pub mod Running
pub mod Moving
pub mod TreeWords
pub mod Letters
pub mod Logged
