pub mod Drafts
pub mod Letters
pub mod Pens
pub mod Contours
pub mod Steps
pub mod Far
