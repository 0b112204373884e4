pub mod Learning
pub mod Growing
pub mod GiveUps
