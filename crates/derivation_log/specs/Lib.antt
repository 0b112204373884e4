pub mod Passing
pub mod Drafts
pub mod Pens
