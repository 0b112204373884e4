pub mod Cases
pub mod Sights
