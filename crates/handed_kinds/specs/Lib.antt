pub mod Handed
pub mod HandedValidity
pub mod HandedFaults
pub mod HandedWalks
pub mod HandedRelation
pub mod Expansion
pub mod Checks
pub mod Laws
