pub mod Counts
pub mod Pieces
pub mod Contents
pub mod Calls
pub mod InMemory
pub mod FilesInMemory
pub mod OfHost
