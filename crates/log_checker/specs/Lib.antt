pub mod Footprints
pub mod Trails
