pub mod Broken
pub mod Rules
pub mod Search
pub mod Cycles
pub mod Laws
