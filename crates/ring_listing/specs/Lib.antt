pub mod Rings
pub mod Faults
pub mod Populations
pub mod Tallies
pub mod Trails
pub mod Stepping
