pub mod Faces
pub mod Telling
pub mod Merging
