pub mod Tessellations
pub mod Validity
pub mod Faults
pub mod Walks
pub mod WalkTexts
pub mod Relation
pub mod TileCounts
pub mod Laws
