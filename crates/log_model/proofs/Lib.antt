pub mod Changes
pub mod Leading
pub mod Texts
