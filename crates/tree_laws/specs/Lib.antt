pub mod Ranks
pub mod Plane
pub mod Machine
pub mod Directions
pub mod Laws
