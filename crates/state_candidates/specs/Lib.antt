pub mod Reading
pub mod Candidates
pub mod Readers
pub mod Stops
pub mod Gathered
pub mod Laws
