pub mod Options
pub mod Tasks
pub mod Forms
pub mod Laws
