pub mod Spelling
pub mod Faults
pub mod Ranges
pub mod Taking
pub mod Parts
pub mod Laws
