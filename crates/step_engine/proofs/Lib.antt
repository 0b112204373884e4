pub mod Detours
pub mod Contours
pub mod Walks
pub mod Far
pub mod Turns
pub mod Underway
